-- The definitions that contracts cite.
pub mod Views
pub mod Words
pub mod Rule
pub mod Steps
pub mod Claims
pub mod Ends
pub mod Yards
pub mod Laws
pub mod Trials
