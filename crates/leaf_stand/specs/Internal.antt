-- What only contracts between parts of the code, and proofs, speak of.
pub mod Ways
pub mod FirstCases
pub mod Cuts
