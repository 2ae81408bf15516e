-- What the public contracts say rests on these, in reading order.
pub mod Columns
pub mod LookUp
pub mod FindFour
pub mod Layout
pub mod Stretches
pub mod Telling
pub mod Shown
pub mod TextPlaces
pub mod IsIndex
pub mod Parts
pub mod HeaderIs
pub mod LayoutOf
pub mod Finds
pub mod FaultText
-- For what a value stands; public contracts name this, and don't rest on how it is said.
pub mod Checked
pub mod Entries
pub mod PartsOf
pub mod TextsOf
