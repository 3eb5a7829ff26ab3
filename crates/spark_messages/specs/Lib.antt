pub mod Message
pub mod MessageTexts
pub mod Text
