mod Dates
pub mod Services
pub mod Blocks
pub mod Handing
pub mod Outages
pub mod Adding
pub mod RowLaws
pub mod Keyed
pub mod Found
pub mod Example
mod RowLine
