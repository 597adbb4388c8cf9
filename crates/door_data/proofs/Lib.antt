-- Laws for the proofs.
pub mod Phases
pub mod Pasted
