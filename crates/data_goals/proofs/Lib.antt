pub mod Bytes
pub mod Memory
pub mod Entries
pub mod Freedom
pub mod Through
pub mod Ways
pub mod Operations
