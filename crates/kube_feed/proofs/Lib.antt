-- lemmas
pub mod Asking
pub mod Finishing
pub mod Firsts
pub mod Going
pub mod Keyed
pub mod Named
pub mod OneTurn
pub mod Requested
pub mod Reading
pub mod Runs
pub mod Stops
pub mod Taking
pub mod Turned
pub mod Turns
