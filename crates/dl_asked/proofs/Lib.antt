pub mod LineTexts
pub mod WordLemmas
pub mod LineCuts
pub mod LineLemmas
pub mod WorkedLines
