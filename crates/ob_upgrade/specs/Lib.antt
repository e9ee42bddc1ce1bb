pub mod Old
pub mod OldFigures
pub mod Laws
pub mod Reading
