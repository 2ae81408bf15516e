-- What the public contracts say rests on these, in reading order.
pub mod Checks
pub mod Lists
pub mod Several
