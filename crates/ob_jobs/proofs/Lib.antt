pub mod Ends
pub mod After
pub mod Plain
pub mod Written
pub mod RowsWritten
