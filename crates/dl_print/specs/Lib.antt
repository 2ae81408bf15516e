-- What the public contracts say rests on these, in reading order.
pub mod Digits
pub mod Counts
pub mod Text
pub mod ValueText
pub mod HeaderText
pub mod HeaderFields
pub mod Printed
pub mod Output
-- Of contracts inside the crate, and of proofs; no public contract reaches these.
pub mod Spellings
