pub mod Imports
pub mod Acting
pub mod Reports
pub mod Gathering
pub mod Whole
