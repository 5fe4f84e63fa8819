-- The lemmas of the crate.
pub mod Trying
pub mod Receipts
pub mod Rounds
pub mod Goings
pub mod SweepRounds
pub mod Performing
pub mod PerformRounds
pub mod Answering
