pub mod Examples
pub mod Filling
pub mod RowLaws
pub mod WholeLaws
