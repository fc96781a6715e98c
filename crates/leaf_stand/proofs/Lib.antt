pub mod Sets
pub mod Blocks
pub mod Rows
pub mod Lists
pub mod Single
pub mod Fits
pub mod Branching
pub mod Turning
pub mod Compared
pub mod Silent
pub mod Cutting
mod Olds
