pub mod Playing
pub mod Walking
pub mod Alike
pub mod Agreeing
pub mod Laws
pub mod Outcomes
