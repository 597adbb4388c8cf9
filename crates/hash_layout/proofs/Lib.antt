-- Lemmas and theorems.
pub mod Answers
pub mod Constants
pub mod Examples
pub mod Lengths
pub mod Refusals
