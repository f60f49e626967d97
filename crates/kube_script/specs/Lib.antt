-- the definitions that the contracts cite
pub mod Reading
pub mod Script
pub mod Whole
pub mod Seen
pub mod SeenTurn
pub mod SeenSource
pub mod SeenScript
pub mod Loaded
pub mod Told
pub mod Pauses
