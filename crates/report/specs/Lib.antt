pub mod Ways
pub mod Walks
pub mod Report
pub mod Drill
pub mod Measuring
pub mod Drawing
