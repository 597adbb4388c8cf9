-- How the code chooses the TEP of an answer, and that it is the choice of the definitions.
pub mod Choosing
pub mod Telling
pub mod Laws
