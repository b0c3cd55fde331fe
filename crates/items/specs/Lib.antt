pub mod Game
pub mod GameFaults
pub mod Multiset
pub mod Packable
pub mod Counters
pub mod SizeBits
