pub mod Blocks
pub mod Roll
pub mod Service
pub mod Services
pub mod Shelves
pub mod WithoutSupply
