pub mod Numbers
pub mod Internal
