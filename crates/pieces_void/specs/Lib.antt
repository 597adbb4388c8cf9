-- Laws of the byte that settles an Init message.
pub mod Settling
