pub mod Words
pub mod Promise
