pub mod Flow
pub mod Told
