-- What the public contracts say rests on these, in reading order.
pub mod Duplicates
pub mod Unused
pub mod Texts
pub mod TableFindings
pub mod Sums
pub mod HeaderFindings
-- Of contracts inside the crate, and of proofs.
pub mod Ordering
pub mod OrderLaws
pub mod Keeping
