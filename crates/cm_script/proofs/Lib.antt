-- The lemmas on scripts and on the text of reports.
pub mod Decimals
pub mod AllRecords
pub mod Exits
pub mod MappedErrors
pub mod MatchedResults
pub mod RowTexts
pub mod LineLimits
