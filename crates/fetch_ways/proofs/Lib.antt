pub mod Free
pub mod Listed
pub mod Walked
pub mod Collected
