pub mod Loops
pub mod Steps
pub mod Members
pub mod Utf8
