pub mod CsvSetup
pub mod Header
pub mod RowReading
pub mod Rows
pub mod Scanning
pub mod WholeRows
