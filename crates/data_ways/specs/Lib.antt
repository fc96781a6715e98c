pub mod Ways
pub mod Internal
