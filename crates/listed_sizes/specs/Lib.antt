pub mod Games
pub mod Answers
pub mod Accepted
pub mod Laws
