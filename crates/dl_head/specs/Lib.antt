-- What the public contracts say rests on these, in reading order.
pub mod Turns
pub mod Dialect
pub mod HeaderLayout
pub mod Header
pub mod Numbers
pub mod Refusal
pub mod Cells
pub mod Written
pub mod Laws
pub mod Built
pub mod Sound
pub mod WrittenLaws
pub mod Writing
pub mod Reading
pub mod Runs
-- For what a value stands; public contracts name this, and don't rest on how it is said.
pub mod Place
pub mod Standing
-- Of contracts inside the crate, and of proofs; no public contract reaches these.
pub mod Bytes
pub mod Equal
pub mod EqualLaws
pub mod HeadStep
pub mod Spelled
pub mod Whole
pub mod TableSpelt
pub mod ListSpelt
