pub mod Ends
pub mod Counting
pub mod Internal
