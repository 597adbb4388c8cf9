-- Laws that the proofs share.
pub mod Halves
pub mod Cases
pub mod ValidityLaws
