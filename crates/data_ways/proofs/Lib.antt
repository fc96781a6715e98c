mod Reached
mod Walked
mod Parted
mod Told
mod Collected
