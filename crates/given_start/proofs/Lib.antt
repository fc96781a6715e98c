pub mod Given
pub mod Lazy
pub mod Knowledge
pub mod Aligned
