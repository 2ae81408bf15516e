-- What the public contracts say rests on these, in reading order.
pub mod Putting
pub mod FileFaults
pub mod FileBuilding
pub mod SectionBuilding
pub mod FileFaultTexts
