-- What only contracts between parts of the code, and proofs, speak of.
pub mod Sources
pub mod Changes
pub mod Tables
pub mod Orders
pub mod Targets
