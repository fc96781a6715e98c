pub mod Elements
pub mod Laws
pub mod Tracks
pub use Rattle.set_pieces.specs.Counting
pub use Rattle.set_pieces.specs.Ends
