pub mod Tested
pub mod Lookup
pub mod Placing
pub mod Putting
pub mod Rotated
pub mod Tables
