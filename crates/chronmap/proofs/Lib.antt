pub mod FileCauses
pub mod KnownBytes
pub mod LowCounts
pub mod RunCauses
pub mod StatusSays
pub mod StopCauses
pub mod WordCauses
