pub mod Bytes
pub mod Ranges
pub mod Spans
