pub mod Sizes
pub mod Timings
pub mod Going
pub mod Runs
pub mod Spelled
pub mod ReportSteps
