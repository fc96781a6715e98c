pub mod Bodies
pub mod Found
