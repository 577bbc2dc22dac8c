pub mod Bytes
pub mod Listening
