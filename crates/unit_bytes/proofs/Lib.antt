-- Lemmas and theorems.
pub mod Laws
pub mod Padded
pub mod Tells
pub mod Whole
