-- Laws of a door's list of rows.
pub mod Listings
