pub mod Inverters
pub mod Accepted
