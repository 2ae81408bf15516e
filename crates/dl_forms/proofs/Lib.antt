pub mod NamesLemmas
pub mod WalkLemmas
