-- The lemmas of the crate.
pub mod Trials
pub mod ListTrials
pub mod SweepTrials
pub mod NumberedMaps
