-- HMAC with a key's block, and what a hash's answer says.
pub mod Keyed
pub mod Told
