pub mod Fitting
pub mod Inverting
pub mod Accepting
