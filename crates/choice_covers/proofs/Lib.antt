pub mod Apart
pub mod Gaps
pub mod Kept
pub mod Parts
