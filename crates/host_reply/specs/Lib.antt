-- The plain numbers of replies.
pub mod Numbers
pub mod Telling
