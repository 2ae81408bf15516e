-- What the public contracts say rests on these, in reading order.
pub mod Source
pub mod Elf
pub mod Sections
pub mod Names
pub mod Found
pub mod Numbered
pub mod Forward
pub mod Compressed
pub mod Notes
pub mod Reader
pub mod FaultText
pub mod Answers
-- For what a value stands; public contracts name this, and don't rest on how it is said.
pub mod Window
pub mod Slots
pub mod SectionsHeld
-- Of contracts inside the crate, and of proofs; no public contract reaches these.
pub mod OpenedBySteps
pub mod SlotsFound
pub mod NoteParts
