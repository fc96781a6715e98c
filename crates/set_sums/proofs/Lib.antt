pub mod Members
pub mod Spans
pub mod Quarters
pub mod Wanted
pub mod Tracked
