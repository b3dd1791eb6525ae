pub mod Carried
pub mod Faults
