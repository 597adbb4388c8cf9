-- Laws that the proofs share.
pub mod Wholes
pub mod Sending
pub mod Halves
pub mod Giving
pub mod Cutting
pub mod Answers
pub mod Examples
pub mod Laws
pub mod Refusals
