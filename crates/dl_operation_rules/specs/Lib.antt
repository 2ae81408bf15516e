-- What the public contracts say rests on these, in reading order.
pub mod Operations
pub mod Judging
-- Of contracts inside the crate, and of proofs; for what values stand.
pub mod Keeping
