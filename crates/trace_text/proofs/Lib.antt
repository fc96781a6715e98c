pub mod Numbered
pub mod Parts
pub mod Lengths
pub mod Reports
mod Counted
mod Told
