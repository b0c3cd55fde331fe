pub mod Reached
pub mod Kept
pub mod Placing
pub mod BestFit
pub mod Rooms
