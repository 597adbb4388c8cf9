-- Laws of the door's definitions.
pub mod Choice
pub mod Judged
