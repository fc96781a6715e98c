pub mod Knowledge
pub mod Internal
