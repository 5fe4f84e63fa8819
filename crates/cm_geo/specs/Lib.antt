-- The definitions that contracts cite.
pub mod Hash
pub mod Layout
pub mod Limits
pub mod Geometry
pub mod Need
pub mod Addresses
pub mod Roles
