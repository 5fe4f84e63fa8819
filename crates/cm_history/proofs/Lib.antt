-- The lemmas of the crate.
pub mod Recording
pub mod Keeping
pub mod Histories
pub mod Gathering
pub mod Finishing
