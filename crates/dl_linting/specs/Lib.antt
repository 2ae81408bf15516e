-- What the public contracts say rests on these, in reading order.
pub mod RuleWords
pub mod Linting
pub mod CountText
