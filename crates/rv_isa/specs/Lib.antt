pub mod Table
pub mod Fields
pub mod Encoding
pub mod Reading
pub mod Laws
pub mod Arithmetic
pub mod Names
pub mod Numbers
