pub mod TargetLemmas
pub mod ValueLemmas
