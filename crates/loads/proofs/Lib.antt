pub mod DescendingLemmas
pub mod CountLemmas
pub mod DistinctLemmas
pub mod LoadsLemmas
pub mod PackedLemmas
pub mod ItemListLemmas
pub mod MovedLemmas
