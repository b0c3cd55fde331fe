pub mod Head
pub mod Listed
pub mod FirstFault
pub mod Accepted
pub mod Progress
pub mod Laws
