pub mod Alone
pub mod Dropped
pub mod Grown
pub mod Named
pub mod Ranges
