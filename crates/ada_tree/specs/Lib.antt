pub mod Words
pub mod Identifiers
pub mod Forms
pub mod Marks
pub mod Tree
