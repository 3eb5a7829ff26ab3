pub mod PlainRules
pub mod Counting
pub mod Closing
