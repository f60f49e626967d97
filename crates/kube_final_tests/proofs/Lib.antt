-- lemmas of the tests
pub mod Fed
