pub mod Order
pub mod Orders
pub mod Entries
pub mod Search
pub mod Lexical
pub mod Table
