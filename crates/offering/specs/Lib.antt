-- How the code of offer comes to its answer.
pub mod Steps
