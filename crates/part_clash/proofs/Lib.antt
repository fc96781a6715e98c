pub mod Orders
pub mod Joins
pub mod Steps
