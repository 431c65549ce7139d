pub mod Etags
pub mod TagTexts
pub mod PlainTags
pub mod Tags
pub mod TagLists
pub mod TagListTexts
