-- What the exported calls of the unit give back, and the laws by which an export gives back the step of the call within it.
pub mod Replies
pub mod Giving
