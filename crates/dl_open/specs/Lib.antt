-- What the public contracts say rests on these, in reading order.
pub mod Shown
pub mod Stops
pub mod Blaming
pub mod Files
pub mod Parts
pub mod Tables
pub mod Code
pub mod BuildIds
pub mod Directories
pub mod Laws
pub mod NotRead
-- For what a value stands, or what was read; no promise rests on how these are said.
pub mod Held
pub mod Walked
pub mod Pieces
