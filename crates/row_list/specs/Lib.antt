-- A door's list of rows: definitions that its functions cite.
pub mod Listed
