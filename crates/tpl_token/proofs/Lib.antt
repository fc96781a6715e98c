pub mod LineEnds
pub mod Digits
pub mod Pieces
