pub mod Added
pub mod Once
pub mod Pushed
