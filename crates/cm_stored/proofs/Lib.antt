-- The lemmas of the crate.
pub mod EndsTrials
pub mod LawsTrials
