pub mod Frames
pub mod Chain
pub mod Right
pub mod Stores
pub mod Tables
