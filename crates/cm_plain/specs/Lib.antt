-- The definitions that contracts cite.
pub mod Limits
pub mod States
pub mod Rooms
pub mod Changes
pub mod Plans
pub mod Replies
pub mod Steps
pub mod History
pub mod Segments
pub mod Placements
pub mod Slots
pub mod Readings
pub mod FoundChains
pub mod Lawful
pub mod ZeroWords
pub mod Torn
pub mod Outcomes
