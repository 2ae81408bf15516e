-- What the public contracts say rests on these, in reading order.
pub mod RuleNames
pub mod Chosen
pub mod FindingText
pub mod FindingJson
pub mod FindingRecord
pub mod FindingTold
pub mod Counting
