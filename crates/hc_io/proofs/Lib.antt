pub mod Takings
pub mod Givings
