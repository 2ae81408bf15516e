pub mod UnitLemmas
pub mod WalkLemmas
pub mod HoldLemmas
pub mod CountLemmas
pub mod ShortLemmas
pub mod SizeLemmas
pub mod KeepLemmas
pub mod FoundLemmas
