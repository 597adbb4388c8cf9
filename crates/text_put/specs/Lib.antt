-- Text that is put at a place.
pub mod Answers
pub mod Laws
