-- the definitions that the contracts cite
pub mod States
pub mod Talks
