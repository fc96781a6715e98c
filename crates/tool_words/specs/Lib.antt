pub mod App
pub mod Commands
pub mod Forms
