-- the definitions that the contracts cite
pub mod Causes
pub mod Part
pub mod Held
pub mod Shown
pub mod Fields
pub mod TraceText
pub mod TraceView
pub mod Refusals
pub mod Pieces
