pub mod Finish
pub mod BigFinish
pub mod KeptOrder
pub mod KeptPlays
pub mod Laws
