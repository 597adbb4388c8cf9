-- Laws that the proofs share.
pub mod Concluding
pub mod Left
pub mod Cases
