pub mod Lists
pub mod Bytes
pub mod Script
pub mod Folds
pub mod Laws
pub mod Memory
pub mod Labels
pub mod Logs
