-- The definitions that contracts cite.
pub mod Loading
pub mod Spans
pub mod Hashes
pub mod Parts
pub mod Verdicts
pub mod Progress
pub mod Prefixes
pub mod Packing
pub mod EntryStores
