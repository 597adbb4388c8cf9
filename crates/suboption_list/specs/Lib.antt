-- The suboptions of an option as a list in an array.
pub mod List
pub mod Left
