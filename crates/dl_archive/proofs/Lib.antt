-- Of contracts inside the crate, and of proofs; no public contract reaches these.
pub mod BytesLemmas
pub mod MemberLemmas
