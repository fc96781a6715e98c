pub mod Written
pub mod Names
pub mod Times
pub mod Numerals
pub mod Reading
pub mod Demo
pub mod Made
pub mod Short
