-- How the code of answer comes to its answer.
pub mod Steps
