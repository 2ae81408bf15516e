-- What the public contracts say rests on these, in reading order.
pub mod Job
pub mod Words
pub mod Refusals
pub mod Laws
pub mod Address
pub mod AddressText
pub mod Range
