-- Laws that the proofs use.
pub mod Entries
pub mod Told
