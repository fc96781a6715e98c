pub mod Noting
pub mod ButLast
pub mod Undoing
pub mod Changes
pub mod Stepping
pub mod Given
