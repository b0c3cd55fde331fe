pub mod RunLemmas
pub mod WonLemmas
pub mod ListLemmas
pub mod PlayLemmas
pub mod RuleLemmas
pub mod TestLists
