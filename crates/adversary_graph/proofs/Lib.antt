pub mod RuleLemmas
pub mod WonLemmas
pub mod PoolLemmas
pub mod PlayLemmas
pub mod EndLemmas
pub mod RenamedLemmas
