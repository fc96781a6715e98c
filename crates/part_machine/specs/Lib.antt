pub mod Whole
pub mod Undo
pub mod Notes
pub mod ButLast
pub mod Internal
