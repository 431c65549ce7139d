pub mod Seconds
pub mod Directives
pub mod Found
