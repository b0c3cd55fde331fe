pub mod Values
pub mod Answers
pub mod Targets
pub mod Laws
