-- What only contracts between parts of the code, and proofs, speak of.
pub mod Near
pub mod Turned
pub mod Rests
pub mod Close
