-- The starts of a reader of pieces: each way through their tests.
pub mod Starting
