pub mod Answers
pub mod Dropping
pub mod Laws
pub mod Internal
