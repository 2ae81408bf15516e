-- What the public contracts say rests on these, in reading order.
pub mod Located
pub mod Compiled
pub mod Locate
pub mod Blaming
pub mod Indexing
pub mod IndexLaws
pub mod Answering
pub mod OverIndex
pub mod OverElfFile
pub mod LocateFile
pub mod WithTable
pub mod SourceWords
-- Of contracts inside the crate, and of proofs; no public contract reaches these.
pub mod Understood
