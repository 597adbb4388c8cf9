-- Document 01's numbers of the answers.
pub mod Refused
