-- Laws for the proofs of offer.
pub mod Taken
pub mod Doors
pub mod Outcomes
