-- Laws that the proofs use.
pub mod Enabling
pub mod Scanning
