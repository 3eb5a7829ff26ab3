pub mod Covers
pub mod Kept
pub mod Parts
pub mod Runs
