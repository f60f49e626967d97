-- lemmas on streams that feed sources
pub mod Fits
pub mod Asked
pub mod Determined
