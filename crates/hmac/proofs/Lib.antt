-- HMAC: the loops over a block, and the two hashes.
pub mod Blocks
pub mod Macs
