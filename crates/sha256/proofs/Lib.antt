-- The running hash: what its steps keep.
pub mod Holding
