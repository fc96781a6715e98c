pub mod Narrowing
pub mod Internal
