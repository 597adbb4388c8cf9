-- A block at a place of a message.
pub mod Blocks
