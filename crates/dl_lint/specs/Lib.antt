-- What the public contracts say rests on these, in reading order.
pub mod Before
pub mod RowRules
pub mod Sequences
pub mod HeaderRules
pub mod TableRules
pub mod OperationRules
pub mod Findings
pub mod Wanting
pub mod Commands
-- Of contracts inside the crate, and of proofs; no public contract reaches these.
pub mod Keeping
pub mod Telling
pub mod Linting
pub mod Finishing
