pub mod RuleLemmas
pub mod CountLemmas
pub mod LintingLemmas
