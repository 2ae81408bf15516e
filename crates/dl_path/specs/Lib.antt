-- What the public contracts say rests on these, in reading order.
pub mod Paths
pub mod PathLaws
pub mod PathTexts
pub mod TextLaws
pub mod TextRoom
pub mod Parts
pub mod Shown
pub mod PathParts
-- Of contracts inside the crate, and of proofs; no public contract reaches these.
pub mod Windows
pub mod Fronts
