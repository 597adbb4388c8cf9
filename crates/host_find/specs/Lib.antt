-- The finder's word in plain numbers, and that these lose nothing.
pub mod Replies
