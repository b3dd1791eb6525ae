pub mod Counting
pub mod Staying
