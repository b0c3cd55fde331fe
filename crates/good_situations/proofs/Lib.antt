pub mod ListLemmas
pub mod OrderLemmas
pub mod KeepingLemmas
pub mod FinishLemmas
