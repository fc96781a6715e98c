-- What only contracts between parts of the code, and proofs, speak of.
pub mod Near
pub mod Remainders
pub mod Spans
pub mod Wanted
