pub mod Legality
pub mod Origins
pub mod Registers
pub mod Listings
pub mod Ranks
pub mod Jumps
