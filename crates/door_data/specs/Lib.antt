-- How a door keeps an option, and laws of what it keeps and of the tests of its calls.
pub mod Kept
pub mod Laws
pub mod Tests
