pub mod Rows
pub mod Indexed
pub mod Moving
pub mod Names
pub mod Planning
pub mod Supplying
pub mod Example
