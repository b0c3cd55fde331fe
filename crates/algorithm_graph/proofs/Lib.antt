pub mod RuleLemmas
pub mod SizesLemmas
pub mod ReplayLemmas
pub mod BelowLemmas
pub mod PoolLemmas
pub mod StepLemmas
pub mod FileLemmas
