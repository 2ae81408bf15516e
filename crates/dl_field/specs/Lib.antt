-- What the public contracts say rests on these, in reading order.
pub mod HeaderData
pub mod Layout
pub mod Field
pub mod Cells
pub mod Usable
pub mod Laws
-- For what a value stands; public contracts name this, and don't rest on how it is said.
pub mod TableStep
pub mod TablePlace
pub mod FieldRuns
pub mod ListStep
pub mod TableMoves
pub mod TableRuns
pub mod ListPlace
