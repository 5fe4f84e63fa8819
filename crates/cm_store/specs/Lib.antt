-- The definitions that contracts cite.
pub mod Tables
pub mod Passes
pub mod Splits
pub mod Closes
pub mod Stops
pub mod Balance
pub mod Lists
pub mod Sweeps
pub mod EmptyMaps
