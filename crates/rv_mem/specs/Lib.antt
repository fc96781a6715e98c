pub mod Ram
pub mod Seen
pub mod Runs
pub mod Bytes
pub mod Frames
pub mod Full
pub mod Part
