-- Lemmas and theorems.
pub mod Answers
pub mod InterfaceLaws
