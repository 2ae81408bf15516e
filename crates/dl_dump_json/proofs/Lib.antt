pub mod ArrayLemmas
pub mod ValueLemmas
pub mod FlagLemmas
pub mod DumpingLemmas
