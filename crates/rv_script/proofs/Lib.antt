pub mod Parts
pub mod Wholes
pub mod Local
pub mod Binds
pub mod Plays
pub mod Results
pub mod Items
