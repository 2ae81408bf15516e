-- What the public contracts say rests on these, in reading order.
pub mod Places
pub mod Answers
pub mod Lines
pub mod Room
pub mod Commands
pub mod AroundCommands
pub mod FoundPlaces
pub mod Words
-- Of contracts inside the crate, and of proofs; no public contract reaches these.
pub mod Runs
pub mod Kept
pub mod Searching
pub mod Seeking
pub mod Printing
pub mod Telling
