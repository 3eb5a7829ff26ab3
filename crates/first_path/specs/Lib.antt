pub mod Begins
pub mod Nested
pub mod Nesting
pub mod Spelling
pub mod Symbols
