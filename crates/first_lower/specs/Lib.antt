pub mod Assembled
pub mod Known
pub mod Levels
pub mod Lowered
pub mod Steps
