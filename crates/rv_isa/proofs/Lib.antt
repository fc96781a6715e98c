pub mod Cuts
pub mod Rows
pub mod Apart
pub mod Codec
pub mod Numbers
