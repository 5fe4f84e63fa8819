-- The definitions that the tests' contracts cite.
pub mod ChangeTrials
pub mod SeatTrials
