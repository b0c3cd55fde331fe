pub mod Terms
pub mod Pools
