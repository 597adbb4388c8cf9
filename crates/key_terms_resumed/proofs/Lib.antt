-- Lemmas and theorems.
pub mod Judged
pub mod Resumed
pub mod Room
pub mod Telling
