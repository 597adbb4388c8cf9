-- Laws for the proofs of a first segment.
pub mod Doors
pub mod Judging
