-- the definitions that the contracts cite
pub mod Commands
pub mod GeneratedRun
pub mod Limit
pub mod Numbers
pub mod Mapped
pub mod Played
pub mod Reached
pub mod Runs
pub mod Served
pub mod Sources
pub mod Summary
