-- What the calls on pieces give back in plain numbers, and that these lose nothing.
pub mod Replies
pub mod Giving
pub mod ReadBack
