-- Lemmas and theorems.
pub mod Answers
pub mod CipherLaws
pub mod Examples
pub mod Refusals
pub mod Theorems
