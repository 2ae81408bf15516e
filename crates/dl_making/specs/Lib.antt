-- What the public contracts say rests on these, in reading order.
pub mod Files
pub mod Telling
pub mod IsIndexOf
pub mod TellsMany
pub mod Room
pub mod Wants
pub mod Makes
pub mod Writes
pub mod Until
pub mod WritesUntil
pub mod LineLaws
-- Of contracts inside the crate, and of proofs; no public contract reaches these.
pub mod UnitFile
pub mod Numbers
pub mod Few
pub mod Making
