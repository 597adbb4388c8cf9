-- The views of how the bytes at hand stand and of the cipher that is taken.
pub mod Answers
pub mod Telling
