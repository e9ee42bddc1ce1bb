pub mod Moments
pub mod Services
pub mod Rows
pub mod RowText
pub mod Sinks
pub mod Outages
pub mod RowLaws
