pub mod Arguments
pub mod Ending
pub mod Naming
pub mod Opening
pub mod Periods
pub mod Ports
pub mod Serving
pub mod Totals
