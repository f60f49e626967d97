-- lemmas on controllers that are alike
pub mod KeptEvents
pub mod KeptTurns
pub mod SettlesRequests
pub mod SettlesHeard
pub mod SettlesRests
pub mod SettlesFed
pub mod SettlesTraces
pub mod StartsRooms
pub mod StartsTurns
