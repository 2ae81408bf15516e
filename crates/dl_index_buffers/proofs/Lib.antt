pub mod TellsLemmas
pub mod LocatedLemmas
