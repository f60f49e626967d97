pub mod Stocks
pub mod Events
pub mod Calls
