pub mod Session
pub mod Chain
pub mod Standing
pub mod Run
pub mod Own
pub mod Laws
