-- What the public contracts say rests on these, in reading order.
pub mod Reached
pub mod OperationText
pub mod DetailText
pub mod Commands
pub mod UnitCommand
pub mod RangeText
pub mod RangeCommands
pub mod RangeLaws
-- Of contracts inside the crate, and of proofs; no public contract reaches these.
pub mod Dumping
pub mod UnitDumping
pub mod RangeDumping
