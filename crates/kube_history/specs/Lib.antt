-- the definitions that the contracts cite
pub mod CoreWorld
pub mod CoreEvents
pub mod Legal
pub mod InTurn
pub mod TurnCalls
pub mod TurnEvents
pub mod Agrees
pub mod PoolHistory
pub mod Running
pub mod SettledEvents
pub mod Rows
