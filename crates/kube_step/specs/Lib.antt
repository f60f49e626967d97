-- the definitions that the contracts cite
pub mod Asked
pub mod Calls
pub mod Controllers
pub mod Errors
pub mod Finishes
pub mod HandOvers
pub mod Marks
pub mod Policies
pub mod Takes
pub mod Turns
