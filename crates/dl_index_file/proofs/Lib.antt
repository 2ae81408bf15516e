pub mod FileLemmas
pub mod FinderLemmas
pub mod NarrowLemmas
pub mod OpeningLemmas
pub mod PlaceLemmas
pub mod RangeLemmas
pub mod TextLemmas
