-- What stands at a place of an option, where its data ends, and what its data makes of it.
pub mod Piece
pub mod Within
pub mod Data
