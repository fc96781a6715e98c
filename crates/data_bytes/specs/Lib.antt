pub mod Sets
pub mod Frames
pub mod Bytes
pub mod Starts
