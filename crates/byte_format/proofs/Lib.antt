pub mod Padding
pub mod Bytes
pub mod Laws
pub mod Groups
pub mod Loop
