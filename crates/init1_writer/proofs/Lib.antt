-- Laws that the proofs use.
pub mod Listing
pub mod Sending
