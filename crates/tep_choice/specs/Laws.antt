-- Laws of the choice.
pub mod Listing
pub mod Entry
pub mod Choice
