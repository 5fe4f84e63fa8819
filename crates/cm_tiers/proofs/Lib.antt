-- The lemmas on links and chains.
pub mod Inner
pub mod ChainLength
pub mod ChainSteps
pub mod Following
pub mod Appending
pub mod TiersFound
