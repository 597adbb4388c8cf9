-- How the code says why a segment ends in plain TCP.
pub mod Reasons
pub mod Laws
