-- The definitions that contracts cite.
pub mod Answers
pub mod Verdicts
pub mod Conditions
pub mod Records
pub mod Looks
pub mod Turns
pub mod Calls
pub mod SeatCalls
pub mod Rounds
pub mod Listings
pub mod SeatLists
pub mod SeatSweeps
