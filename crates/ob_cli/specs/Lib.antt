pub mod Commands
pub mod Complaints
pub mod Jobs
pub mod Statuses
pub mod Values
