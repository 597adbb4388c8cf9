-- Laws of one bit of a word.
pub mod Places
