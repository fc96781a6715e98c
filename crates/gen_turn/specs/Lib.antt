pub mod Touches
pub mod Drafts
pub mod Turns
pub mod Grounds
pub mod Rules
pub mod Generating
pub mod Laws
