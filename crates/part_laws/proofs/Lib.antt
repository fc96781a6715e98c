pub mod Runs
pub mod Late
pub mod Advance
pub mod Finish
pub mod Next
