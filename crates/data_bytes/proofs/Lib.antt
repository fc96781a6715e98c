pub mod Sets
pub mod Framing
pub mod Seeing
pub mod Starting
