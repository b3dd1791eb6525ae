pub mod Latest
pub mod Naming
