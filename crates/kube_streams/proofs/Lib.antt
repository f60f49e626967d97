-- lemmas that the proofs cite
pub mod Applying
pub mod Completing
pub mod Evicted
pub mod Filtered
pub mod Folds
pub mod Forgetting
pub mod Given
pub mod Modifying
pub mod PassedOn
pub mod Pausing
pub mod Quiet
