pub mod Template
pub mod Said
pub mod Counts
pub mod Summary
pub mod Laws
