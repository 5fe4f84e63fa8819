-- The lemmas of the crate.
pub mod GateArrays
pub mod Askers
pub mod Roots
pub mod Fronts
pub mod Ready
pub mod Taking
pub mod Gatherings
pub mod Sums
pub mod Closed
pub mod Accounting
