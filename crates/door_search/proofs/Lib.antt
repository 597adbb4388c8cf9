-- Laws for the proofs of the search.
pub mod Half
pub mod Asked
