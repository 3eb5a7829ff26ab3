pub mod Solving
pub mod State
