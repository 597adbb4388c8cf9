-- Round trips of captures.
pub mod Canonical
pub mod ReadBack
pub mod Written
pub mod WrittenAgain
