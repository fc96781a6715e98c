pub mod Finishing
pub mod Words
