-- the definitions that the contracts cite
pub mod Settles
pub mod Keeps
pub mod Starts
pub mod StartsRows
