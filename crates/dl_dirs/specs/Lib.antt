-- What the public contracts say rests on these, in reading order.
pub mod Texts
pub mod Units
pub mod Directories
pub mod Compilation
pub mod Laws
-- For what a value stands; public contracts name these, and don't rest on how it is said.
pub mod Holding
pub mod Standing
