pub mod CopiedLemmas
pub mod WordLemmas
pub mod WordLaws
pub mod AddressLemmas
