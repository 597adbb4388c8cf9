-- Laws for the proofs of the finder.
pub mod Found
pub mod Answers
