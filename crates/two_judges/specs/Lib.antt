-- That two judges who keep the same promise say the same.
pub mod Equal
