pub mod AssignmentLemmas
pub mod TotalsLemmas
pub mod BitLemmas
pub mod RowLemmas
pub mod LaneLemmas
pub mod PassLemmas
pub mod PlaneLemmas
pub mod LoadLemmas
