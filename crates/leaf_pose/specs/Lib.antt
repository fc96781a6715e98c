pub mod Posed
pub mod Goals
pub mod Problems
pub mod Extras
pub mod Fetches
pub mod Internal
