pub mod Headlines
mod Example
