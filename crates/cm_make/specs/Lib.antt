-- The definitions that contracts cite.
pub mod Generated
pub mod Made
