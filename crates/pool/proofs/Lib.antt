-- Lemmas and theorems.
pub mod Carrying
pub mod Enacting
pub mod EveryByte
pub mod Gathering
pub mod PlacedLaws
