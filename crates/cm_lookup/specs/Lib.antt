-- The definitions that contracts cite.
pub mod Rings
pub mod Shifts
pub mod Tiers
pub mod Probing
pub mod Removals
pub mod Passing
