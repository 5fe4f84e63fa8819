-- The definitions that contracts cite.
pub mod Faults
pub mod Files
pub mod InMemory
pub mod Images
pub mod Refusals
pub mod Stops
