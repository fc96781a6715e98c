pub mod Usages
pub mod Laws
