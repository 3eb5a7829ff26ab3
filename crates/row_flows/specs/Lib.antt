pub mod Frames
pub mod Known
pub mod Rows
