-- What the public contracts say rests on these, in reading order.
pub mod Stretches
pub mod Held
pub mod Runs
pub mod ToldUnits
pub mod Laws
pub mod Hearing
pub mod Kept
-- For what a value stands; public contracts name this, and don't rest on how it is said.
pub mod RowRuns
pub mod Spans
pub mod CutPlaces
pub mod Sequences
pub mod Parts
pub mod Stands
pub mod StandFor
-- Of contracts inside the crate, and of proofs; no public contract reaches these.
pub mod Made
pub mod Renumbered
