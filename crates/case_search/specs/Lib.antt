pub mod Search
pub mod Equivalent
pub mod Internal
