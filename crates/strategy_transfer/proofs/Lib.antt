pub mod ScaleLemmas
pub mod LegalEnds
pub mod WeakenLemmas
pub mod RaiseLemmas
pub mod LinkLemmas
pub mod StrategyLemmas
