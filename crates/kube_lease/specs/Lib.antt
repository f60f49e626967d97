pub mod Leases
pub mod Elections
pub mod Reading
pub mod Candidates
pub mod Polls
pub mod Played
pub mod Staging
pub mod Rows
