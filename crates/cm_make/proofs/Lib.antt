-- The lemmas on generated scripts and on hexadecimal digits.
pub mod MadeLines
pub mod FitLines
pub mod Places
