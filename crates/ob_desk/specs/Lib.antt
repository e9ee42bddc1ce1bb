pub mod Crashes
pub mod Exchanges
pub mod Laws
pub mod Listening
pub mod Serving
pub mod Standing
pub mod Turns
