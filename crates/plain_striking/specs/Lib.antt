-- The judgement by striking the suboptions that are not valid and taking the last.
pub mod Striking
pub mod Stays
