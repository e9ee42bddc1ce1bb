pub mod Asking
pub mod Filing
pub mod Headings
mod Asked
pub mod Failing
mod Kept
mod Passing
pub mod Listing
pub mod Order
pub mod Ordered
pub mod Rowing
pub mod Same
pub mod Standing
pub mod Selects
mod Places
pub mod Reaching
mod Twins
mod Led
mod Lives
mod Texts
pub mod NoWrite
mod RowNumbers
mod NumberQuery
mod SameNetwork
mod Searching
mod Versions
