-- The lemmas on bits and runs of chunks.
pub mod WordBits
pub mod ClearRuns
pub mod Fitting
pub mod SearchLoop
pub mod Freeing
pub mod TurnStores
pub mod TurnedRuns
pub mod PartialTurn
pub mod StateRuns
