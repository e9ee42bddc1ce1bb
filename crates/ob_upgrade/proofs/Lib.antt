pub mod Bodies
mod Examples
mod Reached
mod Whole
