-- The lemmas of the crate.
pub mod Remains
pub mod Linking
pub mod Allowance
pub mod Balancing
pub mod StopLevels
pub mod Owing
pub mod LevelsLeft
