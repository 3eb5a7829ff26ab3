pub mod Withs
pub mod Reading
pub mod Heads
pub mod Packages
pub mod Places
pub mod Orders
