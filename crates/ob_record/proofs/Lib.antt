mod Acted
pub mod Free
mod Fresh
pub mod Keyed
mod Leads
mod Listed
mod Lives
mod Named
mod Parts
mod Posted
pub mod Short
pub mod Starting
