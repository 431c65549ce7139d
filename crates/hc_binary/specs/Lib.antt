pub mod Refusals
pub mod Details
pub mod Numbers
pub mod Copies
pub mod FieldTexts
pub mod Events
