pub mod Columns
pub mod Lengths
pub mod KindTexts
pub mod Alike
pub mod Taken
pub mod Alone
pub mod Counting
pub mod Example
