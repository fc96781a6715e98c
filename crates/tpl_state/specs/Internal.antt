-- What only contracts between parts of the code, and proofs, speak of.
pub mod Growing
pub mod Finding
pub mod Places
pub mod State
pub mod Ordered
