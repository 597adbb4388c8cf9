-- Laws, by what they speak of.
pub mod Answered
pub mod Choice
pub mod First
pub mod Judged
