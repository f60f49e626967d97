-- the definitions that the contracts cite
pub mod Feedings
pub mod Fed
pub mod Determined
