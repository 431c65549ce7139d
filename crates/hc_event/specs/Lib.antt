pub mod Acts
pub mod Answering
pub mod Counting
pub mod Drain
pub mod Filters
pub mod WithinLimits
pub mod Safe
pub mod Plain
