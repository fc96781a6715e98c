pub mod Grounds
pub mod Answers
pub mod Entering
pub mod Data
pub mod Wishes
pub mod Finding
pub mod Built
pub mod Internal
