pub mod Watching
pub mod Fronts
pub mod FrontHistories
pub mod Steps
pub mod Replays
pub mod Laws
