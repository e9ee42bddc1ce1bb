pub mod Examples
pub mod Filling
pub mod Floats
pub mod Identifiers
pub mod OnLiterals
pub mod Sayings
pub mod Values
