-- Lemmas and theorems.
pub mod Laws
pub mod Left
