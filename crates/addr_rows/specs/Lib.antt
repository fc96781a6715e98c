pub mod Combinations
pub mod Scenes
pub mod Walks
pub mod Laws
