pub mod Retrying
pub mod Streams
pub mod Watching
