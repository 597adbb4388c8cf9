-- Lemmas and theorems.
pub mod Examples
pub mod Finds
pub mod Laws
