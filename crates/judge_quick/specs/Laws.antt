-- Laws of the quick way, for the judge's proofs.
pub mod Concluding
pub mod Last
pub mod Ways
pub mod Judging
pub mod Cases
