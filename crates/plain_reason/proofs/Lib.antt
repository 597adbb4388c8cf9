-- Laws for the proofs.
pub mod Absent
pub mod Second
