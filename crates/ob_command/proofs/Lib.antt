mod BodyLaws
mod Cuts
mod Examples
mod Joins
mod Numbers
pub mod Plain
mod Readings
mod RowExamples
mod RowLaws
mod Splits
mod Unused
