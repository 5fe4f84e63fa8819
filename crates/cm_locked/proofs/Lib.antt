-- The lemmas of the crate.
pub mod EvenNumbers
pub mod FoundWords
pub mod PlansReady
pub mod SeatTrials
