pub mod AdvanceLemmas
pub mod OperationLemmas
pub mod PlainLemmas
