pub mod Ranges
pub mod Headers
pub mod Windows
pub mod NameLemmas
pub mod FoundLemmas
mod ForwardLemmas
pub mod NoteLemmas
pub mod WorkedFile
pub mod NumberedLemmas
pub mod OpenedLemmas
