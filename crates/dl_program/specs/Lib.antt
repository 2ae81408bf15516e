-- What the public contracts say rests on these, in reading order.
pub mod Stops
pub mod Units
pub mod Damages
pub mod Shown
pub mod Answers
pub mod Asked
pub mod Whole
pub mod Tables
pub mod Work
pub mod Blaming
-- Of contracts inside the crate, and of proofs; no public contract reaches these.
pub mod Held
