-- What the public contracts say rests on these, in reading order.
pub mod Relocations
pub mod Inflating
pub mod Faults
pub mod ContentReader
pub mod LineReader
pub mod LineTable
pub mod InfoTable
pub mod Places
pub mod Code
-- For what a value stands; public contracts name this, and don't rest on how it is said.
pub mod Inflates
pub mod InStep
-- Of contracts inside the crate, and of proofs; no public contract reaches these.
pub mod OneByOne
pub mod Answering
