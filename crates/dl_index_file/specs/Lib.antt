-- What the public contracts say rests on these, in reading order.
pub mod Reading
pub mod Opening
pub mod Shown
pub mod FindsIn
pub mod Finder
-- For what a value stands; public contracts name this, and don't rest on how it is said.
pub mod Places
pub mod Kept
pub mod Finding
-- Of contracts inside the crate, and of proofs; no public contract reaches these.
pub mod Narrowed
pub mod Steps
