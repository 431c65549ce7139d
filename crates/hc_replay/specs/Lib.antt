pub mod Histories
pub mod Replays
pub mod WholeRuns
pub mod Summaries
pub mod Generates
