-- Of contracts inside the crate, and of proofs; no public contract reaches these.
pub mod FitLemmas
pub mod CandidateLemmas
pub mod FollowedLemmas
pub mod ToldLemmas
