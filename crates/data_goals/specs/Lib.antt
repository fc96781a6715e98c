pub mod Goals
pub mod Grounds
pub mod Laws
