-- The definitions that contracts cite.
pub mod FirstWords
pub mod Views
pub mod Levels
pub mod ChangeLists
pub mod Seats
pub mod Rounds
pub mod Rule
pub mod Laws
pub mod Steps
pub mod Picks
pub mod Numbers
pub mod Answers
pub mod Calls
pub mod Takes
pub mod Tables
pub mod Holds
pub mod Peekings
