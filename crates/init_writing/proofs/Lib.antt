-- Laws that the proofs use, and those that both writers' use.
pub mod Fitting
pub mod Putting
