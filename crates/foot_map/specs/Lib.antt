pub mod Order
pub mod Touches
pub mod Pages
pub mod Races
pub mod Laws
