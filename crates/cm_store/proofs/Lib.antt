-- The lemmas of the crate.
pub mod Elements
pub mod Seats
pub mod Starting
pub mod Splitting
pub mod Joining
pub mod Closing
pub mod ListCalls
pub mod SweepEnds
pub mod Sums
pub mod EmptyMaps
