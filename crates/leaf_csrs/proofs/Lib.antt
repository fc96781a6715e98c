pub mod Accessed
pub mod Using
pub mod Refusing
pub mod Counted
