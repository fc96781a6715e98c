pub mod Clashes
pub mod Internal
