pub mod Notes
pub mod File
pub mod Parts
pub mod Told
pub mod Internal
