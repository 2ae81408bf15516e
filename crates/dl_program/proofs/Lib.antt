pub mod TableLemmas
pub mod EndLemmas
pub mod WorkLemmas
pub mod DamageLemmas
pub mod BlameLemmas
