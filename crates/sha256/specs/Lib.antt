-- The running hash.
pub mod Running
