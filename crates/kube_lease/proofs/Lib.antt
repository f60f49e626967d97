pub mod ElectionLaws
pub mod RegularPasts
pub mod LeaseDocuments
pub mod Serving
pub mod Standings
pub mod Claims
pub mod Staging
pub mod RowLemmas
