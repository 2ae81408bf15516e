-- What the public contracts say rests on these, in reading order.
pub mod Sequences
pub mod Kept
pub mod Section
pub mod Laws
-- Of contracts inside the crate, and of proofs; no public contract reaches these.
pub mod Fronts
