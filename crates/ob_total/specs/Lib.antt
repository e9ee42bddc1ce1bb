pub mod Commands
pub mod Outcomes
pub mod Steps
pub mod Totals
pub mod Worlds
