pub mod Entry
pub mod Translation
pub mod Clauses
