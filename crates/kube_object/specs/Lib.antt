-- the definitions that the contracts cite
pub mod Stored
pub mod Named
