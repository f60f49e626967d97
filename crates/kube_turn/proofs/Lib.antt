-- lemmas that the answers use
pub mod Kept
