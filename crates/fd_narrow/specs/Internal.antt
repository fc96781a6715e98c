-- What only contracts between parts of the code, and proofs, speak of.
pub mod Steps
pub mod Orders
pub mod Standings
pub mod Parts
pub mod Writes
