-- What the public contracts say rests on these, in reading order.
pub mod Front
pub mod Forms
pub mod Heads
pub mod Abbreviations
pub mod Entries
pub mod Units
pub mod Grammar
pub mod Laws
-- For what a value stands; public contracts name these, and don't rest on how it is said.
pub mod Section
pub mod Kept
