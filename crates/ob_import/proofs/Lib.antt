pub mod ImportLaws
pub mod Importing
pub mod Lines
pub mod Wholly
pub mod Reading
pub mod Taking
