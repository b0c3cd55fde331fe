pub mod LookupLemmas
pub mod ClockLemmas
pub mod DropLemmas
pub mod RoomLemmas
pub mod SmallLemmas
