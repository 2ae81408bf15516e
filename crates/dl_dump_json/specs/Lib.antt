-- What the public contracts say rests on these, in reading order.
pub mod Members
pub mod Values
pub mod Fields
pub mod Units
pub mod Rows
pub mod SectionJson
pub mod Commands
-- Of contracts inside the crate, and of proofs; no public contract reaches these.
pub mod Dumping
