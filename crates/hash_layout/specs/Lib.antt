-- SHA-256 (FIPS 180-4), HMAC (RFC 2104) and HKDF (RFC 5869): definitions, what each call gives, the numbers of its refusals, and the laws.
pub mod Constants
pub mod Sha256
pub mod Hmac
pub mod Hkdf
pub mod Outcome
pub mod Calls
pub mod Answers
pub mod Numbered
pub mod Refusals
