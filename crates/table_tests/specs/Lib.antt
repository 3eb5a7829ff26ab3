pub mod Samples
pub mod Lawful
