-- The definitions that contracts cite.
pub mod OccupiedSlots
pub mod AllowedPlaces
pub mod Judgements
pub mod KeptSlots
pub mod Recovered
pub mod Tallies
pub mod Rebuilding
pub mod Clearing
pub mod Laws
pub mod Premises
