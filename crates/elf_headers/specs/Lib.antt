pub mod Runs
pub mod Headers
pub mod Numbers
pub mod Internal
