pub mod ReportSteps
pub mod GoneOn
