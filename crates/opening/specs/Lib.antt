-- What the steps that offer and answer share tell, and laws for both.
pub mod Steps
pub mod Laws
