pub mod Ends
pub mod Wholes
pub mod Orders
pub mod Plain
pub mod Offsets
pub mod Askings
