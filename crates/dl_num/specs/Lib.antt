-- What the public contracts say rests on these, in reading order.
pub mod Fixed
pub mod FixedBytes
pub mod OperandBytes
pub mod NumberBytes
pub mod Leb
pub mod LebFront
pub mod LebReader
pub mod Magnitude
pub mod Shortest
pub mod Front
pub mod Steps
pub mod Laws
