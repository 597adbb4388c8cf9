-- Laws of the finder's word in plain numbers.
pub mod Numbering
pub mod ReadBack
