pub mod Importing
pub mod Streaming
pub mod Standing
pub mod Going
pub mod Headline
