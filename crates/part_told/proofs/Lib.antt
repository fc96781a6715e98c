pub mod Numbers
pub mod Smalls
pub mod Listed
pub mod Places
