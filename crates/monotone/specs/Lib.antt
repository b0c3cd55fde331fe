pub mod Paths
pub mod Passes
pub mod Visits
pub mod Positions
pub mod Laws
pub mod SmallGame
