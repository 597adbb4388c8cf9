-- What the exported calls give back in plain numbers, and that these lose nothing.
pub mod Replies
pub mod ReadBack
