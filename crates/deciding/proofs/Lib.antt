-- Laws for the proofs.
pub mod Tests
