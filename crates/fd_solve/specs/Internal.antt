-- What only contracts between parts of the code, and proofs, speak of.
pub mod Equivalent
pub mod Known
pub mod Marks
pub mod Meeting
pub mod Ready
pub mod Asking
pub mod Taking
pub mod Shrinking
pub mod Operations
