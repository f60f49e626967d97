-- the definitions that the contracts cite
pub mod Reads
pub mod Requests
pub mod Asked
pub mod Fed
pub mod Takes
pub mod Turns
pub mod Stops
pub mod Runs
