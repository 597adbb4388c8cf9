-- Laws for the proofs.
pub mod Held
