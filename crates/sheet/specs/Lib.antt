pub mod Cells
pub mod Chains
pub mod Held
pub mod Page
pub mod Rows
pub mod Calls
pub mod Memory
pub mod Laws
