-- What the public contracts say rests on these, in reading order.
pub mod CommandLine
pub mod Memory
