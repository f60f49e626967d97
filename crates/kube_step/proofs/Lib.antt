-- lemmas that the proofs cite
pub mod Trails
pub mod Traced
pub mod Records
pub mod Ended
pub mod Places
pub mod Refusing
pub mod Waits
pub mod Fronts
pub mod Asking
pub mod OneTurn
pub mod Finishing
pub mod Taking
pub mod Turning
pub mod Turned
pub mod Until
