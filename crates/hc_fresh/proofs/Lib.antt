pub mod Tokens
pub mod Names
pub mod DateTexts
pub mod UseLaws
