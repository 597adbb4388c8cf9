-- Laws that the proofs use.
pub mod Struck
pub mod Striking
