-- the definitions that the contracts cite
pub mod Backoffs
