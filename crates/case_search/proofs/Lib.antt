pub mod Ranks
pub mod Orders
mod Bounds
pub mod Putting
pub mod Inside
mod Skips
mod Cuts
mod Searching
mod Freedom
mod Leaving
mod EqualSlots
mod JoinedTargets
mod Strengthening
mod Joining
mod Made
pub mod Equivalence
pub mod Lists
pub mod Extensions
mod MetRows
