-- Laws of the walk of an area.
pub mod Locating
