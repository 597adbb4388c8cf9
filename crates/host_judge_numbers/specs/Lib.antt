-- A judgement in plain numbers, and that these lose nothing.
pub mod Replies
