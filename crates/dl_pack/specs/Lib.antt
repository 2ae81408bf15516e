-- What the public contracts say rests on these, in reading order.
pub mod Named
pub mod Shown
pub mod Numbering
pub mod Columns
pub mod Tables
pub mod IndexOf
pub mod Faults
pub mod Room
pub mod Telling
pub mod Laws
-- For what a value stands; public contracts name this, and don't rest on how it is said.
pub mod Within
-- Of contracts inside the crate, and of proofs; no public contract reaches these.
pub mod Unnumbered
pub mod Mentioned
pub mod Totals
pub mod Written
pub mod Writing
pub mod Fits
