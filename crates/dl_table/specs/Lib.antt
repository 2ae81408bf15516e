-- What the public contracts say rests on these, in reading order.
pub mod Value
pub mod TableData
pub mod TableCells
pub mod Written
pub mod Held
pub mod EntryData
pub mod EntryHeld
pub mod ValuesLeft
pub mod Built
pub mod Refused
pub mod Sound
pub mod FaultText
pub mod Text
pub mod Writing
-- Of contracts inside the crate, and of proofs; no public contract reaches these.
pub mod TableHeld
pub mod Building
pub mod Equal
pub mod EqualLaws
pub mod Spelled
