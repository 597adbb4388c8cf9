-- The number and the position of a refusal.
pub mod Refused
