pub mod Orders
pub mod Law
mod Fills
mod Filled
mod Steps
mod Running
mod Starts
