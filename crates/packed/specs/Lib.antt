pub mod Appends
pub mod Written
pub mod Example
pub mod Load
