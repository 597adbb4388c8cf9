-- Lemmas and theorems.
pub mod Examples
