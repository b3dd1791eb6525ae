pub mod Marks
pub mod Puts
