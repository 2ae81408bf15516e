-- What the public contracts say rests on these, in reading order.
pub mod Location
pub mod Json
pub mod Shown
pub mod Code
pub mod Locations
pub mod Commands
pub mod AroundCommands
pub mod AroundLaws
-- Of contracts inside the crate, and of proofs; no public contract reaches these.
pub mod Kept
pub mod Texts
pub mod Room
pub mod Keeping
pub mod Locating
pub mod Answers
pub mod Printing
pub mod Knowing
