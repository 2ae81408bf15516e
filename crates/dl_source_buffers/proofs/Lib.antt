pub mod PlaceLemmas
pub mod SourceLemmas
