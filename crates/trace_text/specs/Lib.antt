pub mod Numbers
pub mod Steps
pub mod Rest
pub mod Report
pub mod Verdicts
pub mod Faults
pub mod Events
