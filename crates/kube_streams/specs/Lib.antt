-- the definitions that the contracts cite
pub mod Adapts
pub mod Applies
pub mod Completes
pub mod Decodes
pub mod FilterLaws
pub mod Filters
pub mod InOrder
pub mod Modifies
pub mod Pauses
pub mod Properties
pub mod Splits
