pub mod LintLemmas
pub mod RecordLemmas
