mod Drops
pub mod Failures
pub mod Expansions
mod Limits
pub mod Memory
mod Order
pub mod Said
pub mod Systems
