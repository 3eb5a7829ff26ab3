pub mod Aggregates
pub mod Arguments
pub mod Choices
pub mod Kept
pub mod Names
pub mod Operands
pub mod Parts
