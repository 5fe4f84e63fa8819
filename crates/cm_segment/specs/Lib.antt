-- The definitions that contracts cite.
pub mod PlanNumbers
pub mod Planning
pub mod OldEntries
pub mod RoomPlans
pub mod Sights
pub mod Peeked
pub mod PeekNotes
pub mod Walks
pub mod Phases
pub mod Frames
pub mod Counts
pub mod PlacementBase
pub mod PlacementStages
pub mod RemovalStages
pub mod ReplacementStages
pub mod RelocationStages
