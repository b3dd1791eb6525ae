pub mod Chaining
pub mod Following
pub mod Standing
pub mod Striking
pub mod Replaying
pub mod Owning
pub mod Same
