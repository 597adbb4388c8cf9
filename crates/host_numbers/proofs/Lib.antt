-- Laws of the unit's replies in plain numbers.
pub mod ReadBack
