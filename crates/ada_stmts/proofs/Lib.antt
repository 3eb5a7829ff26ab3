pub mod Passing
pub mod Sequences
