-- The definitions that contracts cite.
pub mod Tries
pub mod Callers
pub mod Records
pub mod Sweeping
