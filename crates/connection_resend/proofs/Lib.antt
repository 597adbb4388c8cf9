-- Laws of resend.
pub mod Resending
