-- What the replies of reading a header and of making a nonce tell by themselves.
pub mod Telling
