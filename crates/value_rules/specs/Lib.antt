pub mod Applications
pub mod Attributes
pub mod Branches
pub mod Names
pub mod Operators
pub mod Standings
pub mod Statics
pub mod Tellings
