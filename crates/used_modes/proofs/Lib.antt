pub mod Adding
pub mod Modes
