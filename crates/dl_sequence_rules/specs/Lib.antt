-- What the public contracts say rests on these, in reading order.
pub mod Covering
pub mod Overlaps
pub mod NoCode
pub mod Dead
pub mod SequenceFindings
pub mod Laws
-- Of contracts inside the crate, and of proofs; for what values stand.
pub mod Cutting
pub mod Keeping
pub mod Alone
