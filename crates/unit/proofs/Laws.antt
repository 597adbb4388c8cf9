-- Laws, by what they speak of.
pub mod Books
pub mod Calls
pub mod Deeds
pub mod Lists
pub mod Marks
pub mod Owned
pub mod Pool
pub mod Shown
