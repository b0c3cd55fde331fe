pub mod Counters
pub mod Edits
pub mod Sublist
pub mod Laws
pub mod Contents
