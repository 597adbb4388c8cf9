-- The pool in place: what its functions leave, and the laws that the unit's calls cite.
pub mod Carried
pub mod Placed
pub mod PlacedLaws
pub mod Carrying
