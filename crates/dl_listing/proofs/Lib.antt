pub mod TextLemmas
pub mod StretchLemmas
pub mod PathLemmas
