mod Texts
mod Sends
mod Listing
mod Offered
mod Counting
pub mod Rows
mod UpstreamTables
mod Changes
mod ClientTables
mod Takings
pub mod Outcomes
