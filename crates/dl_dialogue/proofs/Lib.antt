pub mod AnswerLemmas
pub mod DialogueLemmas
pub mod StayLemmas
pub mod TellingLemmas
pub mod BlameLemmas
