pub mod Keys
pub mod Questions
pub mod Shown
pub mod Steps
pub mod Traces
pub mod Ends
pub mod Verdicts
pub mod Behind
