-- What the public contracts say rests on these, in reading order.
pub mod Bits
pub mod Codes
pub mod Deflate
pub mod Zlib
pub mod Feeding
pub mod Laws
pub mod Encoded
-- For what a value stands; public contracts name this, and don't rest on how it is said.
pub mod Buffer
pub mod Kept
pub mod Turns
pub mod Blocks
pub mod Onward
pub mod Progress
pub mod StreamStands
-- Of contracts inside the crate, and of proofs; no public contract reaches these.
pub mod BasesKept
pub mod PieceKept
pub mod LengthsKept
