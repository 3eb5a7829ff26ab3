pub mod Files
pub mod Parsed
