pub mod Algorithm
pub mod PackableLists
pub mod Laws
pub mod Rules
pub mod Replays
pub mod PlayersAnswer
