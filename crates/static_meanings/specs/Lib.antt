pub mod Meanings
pub mod Pairs
