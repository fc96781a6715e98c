pub mod Insertions
pub mod Aligns
pub mod Multiples
pub mod Searches
