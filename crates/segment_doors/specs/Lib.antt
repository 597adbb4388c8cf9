-- How the code opens a door.
pub mod Steps
