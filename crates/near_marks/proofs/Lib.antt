pub mod Grids
mod Marking
mod Turning
mod Leaving
mod Closing
