pub mod Coming
pub mod Answering
pub mod Turns
pub mod Endings
pub mod Stops
pub mod Replies
pub mod Keeping
pub mod Going
