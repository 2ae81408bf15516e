-- What the public contracts say rests on these, in reading order.
pub mod Counts
pub mod Sources
pub mod Entries
pub mod SectionTold
pub mod Report
pub mod Wanting
pub mod Commands
pub mod AroundCommands
pub mod UnitCommand
pub mod SourceFiles
pub mod FoundSources
pub mod OrderLaws
-- Of contracts inside the crate, and of proofs; no public contract reaches these.
pub mod Counting
pub mod Holding
pub mod UnitEntries
pub mod Listing
pub mod Reporting
pub mod Ended
pub mod UnitListing
