-- What the public contracts say rests on these, in reading order.
pub mod Faults
pub mod Asking
pub mod Staying
pub mod Answers
pub mod Dialogues
-- For what a value stands; public contracts name this, and don't rest on how it is said.
pub mod Standing
-- Of contracts inside the crate, and of proofs; no public contract reaches these.
pub mod Paths
