-- lemmas that the proofs cite
pub mod Steps
