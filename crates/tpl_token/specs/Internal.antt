-- What only contracts between parts of the code, and proofs, speak of.
pub mod Views
pub mod Phrases
pub mod Pieces
