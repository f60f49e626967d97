-- the definitions that the contracts cite
pub mod Views
pub mod Records
pub mod Results
