-- The definitions that contracts cite.
pub mod Gates
pub mod GateCounts
pub mod RunGates
pub mod Explained
pub mod Callers
pub mod Gathered
