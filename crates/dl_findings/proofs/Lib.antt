pub mod BitLemmas
pub mod CountLemmas
pub mod RecordLemmas
pub mod NameLemmas
