-- lemmas on what is stored
pub mod Finds
pub mod Changes
pub mod Follows
pub mod Summaries
pub mod Phases
pub mod Steps
pub mod NextSteps
pub mod Walks
pub mod Newest
pub mod Endings
pub mod Turns
pub mod Tellings
pub mod Reached
pub mod Standing
