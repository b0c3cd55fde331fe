pub mod Bounded
pub mod Clock
pub mod SmallPositions
pub mod Forms
pub mod Memo
pub mod Laws
