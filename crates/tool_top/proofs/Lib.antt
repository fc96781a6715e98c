pub mod Promises
pub mod Reading
pub mod WordLemmas
