pub mod Spelling
pub mod Internal
