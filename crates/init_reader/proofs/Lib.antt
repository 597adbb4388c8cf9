-- Laws that the proofs share.
pub mod Filling
pub mod Receiving
