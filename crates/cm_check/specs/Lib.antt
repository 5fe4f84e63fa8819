-- The definitions that contracts cite.
pub mod Quiets
pub mod Findings
pub mod Places
pub mod HeadLaws
pub mod SlotEntries
pub mod SlotLaws
pub mod CountLaws
pub mod SlotReads
pub mod TakenChunks
pub mod LawOrder
pub mod Contents
