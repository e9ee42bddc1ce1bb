pub mod Parts
pub mod OldTables
pub mod Laws
