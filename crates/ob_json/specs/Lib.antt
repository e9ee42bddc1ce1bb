pub mod Totals
pub mod Indices
pub mod Moves
pub mod Plans
pub mod Supplies
