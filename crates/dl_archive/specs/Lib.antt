-- What the public contracts say rests on these, in reading order.
pub mod Archive
pub mod Bytes
pub mod Told
