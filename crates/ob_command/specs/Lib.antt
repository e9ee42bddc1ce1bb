pub mod Ranges
pub mod Commands
pub mod Devices
pub mod Words
pub mod Spellings
pub mod Fields
pub mod Splits
