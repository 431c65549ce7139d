pub mod External
pub mod NotModified
pub mod ShownActs
