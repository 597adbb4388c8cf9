-- Laws for the proofs of receive.
pub mod Reasons
pub mod Outcomes
