-- Laws for the proofs of answer.
pub mod Taken
pub mod Doors
pub mod Outcomes
