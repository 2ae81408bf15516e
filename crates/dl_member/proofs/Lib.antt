-- Of contracts inside the crate, and of proofs; no public contract reaches these.
pub mod PathLemmas
pub mod TableLemmas
pub mod StepLemmas
pub mod WalkLemmas
