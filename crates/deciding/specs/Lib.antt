-- How the code comes to what an answer comes to, and that it is what the definitions say.
pub mod Steps
pub mod Laws
