pub mod Conditions
pub mod Selection
pub mod Updates
pub mod Showing
pub mod Origin
