-- What the walk of an option gives.
pub mod Summary
pub mod Laws
pub mod Finds
