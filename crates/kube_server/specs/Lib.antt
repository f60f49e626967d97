-- the definitions that the contracts cite
pub mod History
pub mod Numbers
pub mod Tokens
pub mod Honest
pub mod Readers
pub mod TalkRows
pub mod Connections
pub mod Servers
pub mod Stored
pub mod Talks
pub mod Logs
pub mod Watches
pub mod Kept
pub mod Indices
pub mod Standing
pub mod Serving
pub mod ObjectCalls
