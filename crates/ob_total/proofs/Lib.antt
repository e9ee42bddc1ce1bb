pub mod Counting
pub mod Lives
pub mod Sections
pub mod TotalLaws
pub mod Unused
