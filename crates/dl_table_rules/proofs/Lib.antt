pub mod FirstLemmas
pub mod OrderLemmas
pub mod TwinLemmas
pub mod NamedLemmas
pub mod TextLemmas
pub mod ContentLemmas
pub mod SumLemmas
