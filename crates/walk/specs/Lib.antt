pub mod Cycle
pub mod Walk
pub mod Opening
pub mod Outcome
pub mod Laws
