pub mod Failures
pub mod Internal
