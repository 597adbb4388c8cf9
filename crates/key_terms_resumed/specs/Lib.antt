-- After a result that says resumed, the terms are the record's own role and the nonces that the two options carry.
pub mod Judged
pub mod Telling
pub mod Resumed
