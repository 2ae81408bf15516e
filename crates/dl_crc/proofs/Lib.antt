pub mod CrcLemmas
pub mod TableLemmas
