pub mod Happening
pub mod Calling
