-- What the public contracts say rests on these, in reading order.
pub mod Places
pub mod Fits
pub mod Candidates
pub mod Left
pub mod Seen
pub mod Clues
pub mod Followed
pub mod NotFoundText
