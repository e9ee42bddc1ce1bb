pub mod Tables
pub mod Reached
pub mod Leading
pub mod Naming
