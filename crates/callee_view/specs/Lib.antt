pub mod Seen
pub mod Shown
pub mod Signatures
