-- The definitions that contracts cite.
pub mod Laws
pub mod SpentLaws
pub mod StopLaws
pub mod SweepLaws
