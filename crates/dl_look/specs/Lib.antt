-- What the public contracts say rests on these, in reading order.
pub mod Answer
pub mod Ranges
pub mod CodeRanges
pub mod FinderRows
pub mod LiveRows
pub mod Laws
pub mod Spans
pub mod Units
pub mod Asked
pub mod Cuts
-- For what a value stands; public contracts name this, and don't rest on how it is said.
pub mod Slots
pub mod Ledgers
pub mod Trails
pub mod FindersRows
-- Of contracts inside the crate, and of proofs; no public contract reaches these.
pub mod Links
pub mod SequenceState
