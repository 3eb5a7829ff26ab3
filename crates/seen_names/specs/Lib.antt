pub mod Applications
pub mod Attributes
pub mod Contexts
pub mod Entities
