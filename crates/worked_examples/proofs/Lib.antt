pub mod Counting
pub mod Keeping
pub mod Figures
pub mod Performing
pub mod Demonstrating
