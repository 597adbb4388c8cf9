-- Laws of result.
pub mod Outcomes
