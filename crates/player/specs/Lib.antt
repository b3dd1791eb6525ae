pub mod Play
pub mod Moves
pub mod Feed
pub mod Walker
pub mod Law
pub mod Calls
pub mod Opens
