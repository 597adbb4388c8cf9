-- The digits of a word, read from the first on.
pub mod Digits
