-- Laws that offer and answer share.
pub mod Terms
pub mod Taken
pub mod Writing
pub mod Outcomes
