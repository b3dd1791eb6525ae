pub mod Matching
pub mod Chaining
pub mod Layers
pub mod Judging
pub mod Placing
pub mod Overlays
pub mod Fitting
pub mod Undoing
