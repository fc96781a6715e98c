pub mod Meaning
pub mod Probing
pub mod State
pub mod Beginning
pub mod Told
pub mod Files
pub mod Internal
