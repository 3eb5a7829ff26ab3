pub mod Choices
pub mod Found
pub mod Overs
pub mod Scenes
pub mod Statics
pub mod Typing
