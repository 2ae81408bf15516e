pub mod SeveralLemmas
pub mod ListLemmas
