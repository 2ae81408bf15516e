-- What the public contracts say rests on these, in reading order.
pub mod Paths
pub mod Faults
pub mod Finding
pub mod Files
pub mod WithMember
pub mod NoTable
pub mod Walking
-- Of contracts inside the crate, and of proofs; no public contract reaches these.
pub mod Parts
pub mod Onward
