pub mod Draws
pub mod Actions
pub mod Requests
pub mod Sending
pub mod States
pub mod Rounds
pub mod Hearing
pub mod Summary
