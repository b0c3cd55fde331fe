pub mod Reached
pub mod Planes
pub mod Words
pub mod Layout
