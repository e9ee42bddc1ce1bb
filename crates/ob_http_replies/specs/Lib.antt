pub mod Bodies
pub mod JsonCommands
pub mod Reply
pub mod Status
