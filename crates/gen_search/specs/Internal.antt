-- What only contracts between parts of the code, and proofs, speak of.
pub mod Walks
pub mod Tries
