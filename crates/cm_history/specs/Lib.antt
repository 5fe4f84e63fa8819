-- The definitions that lemmas and contracts cite.
pub mod Kept
pub mod Endings
pub mod Laws
