-- The definitions that contracts cite.
pub mod Bits
pub mod Free
pub mod Passing
pub mod Turns
pub mod RunBits
pub mod Laws
