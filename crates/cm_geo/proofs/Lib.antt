-- The lemmas on the geometry's numbers and on the addresses.
pub mod Ranges
pub mod Powers
pub mod AddressOrder
pub mod AddressesApart
pub mod WordRoles
pub mod Unchanged
