-- What only contracts between parts of the code, and proofs, speak of.
pub mod Barring
pub mod Making
pub mod Tables
