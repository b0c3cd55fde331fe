pub mod FaultLemmas
pub mod LineLemmas
pub mod NextLemmas
pub mod ReadingLemmas
pub mod SliceLemmas
pub mod ToldLemmas
