-- Laws of a judge's answers, for the proofs.
pub mod Plainly
pub mod Found
pub mod Transcript
