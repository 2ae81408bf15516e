-- What the public contracts say rests on these, in reading order.
pub mod Entries
pub mod Changes
pub mod Types
pub mod Relocated
pub mod Compact
pub mod Places
-- Of contracts inside the crate; no public contract reaches this.
pub mod LowTypes
