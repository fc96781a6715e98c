pub mod Given
pub mod Played
pub mod Laws
pub mod Ahead
pub mod Back
pub mod Entered
