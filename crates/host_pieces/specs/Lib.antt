-- The arguments of the exported starts.
pub mod Arguments
