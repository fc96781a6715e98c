pub mod Sums
pub mod Proved
pub mod Told
pub mod Leaves
