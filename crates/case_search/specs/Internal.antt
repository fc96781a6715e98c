-- What only contracts between parts of the code, and proofs, speak of.
pub mod Skipping
pub mod Free
pub mod Easier
pub mod Classes
pub mod Stronger
pub mod Targets
