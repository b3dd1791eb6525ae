pub mod Example
pub mod Packing
pub mod Appending
pub mod Relaying
