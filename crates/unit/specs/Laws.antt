-- Laws of lists, of the pool and of the calls, for the theorems.
pub mod Lists
pub mod Pool
pub mod Owned
pub mod Calls
pub mod Deeds
pub mod Shown
