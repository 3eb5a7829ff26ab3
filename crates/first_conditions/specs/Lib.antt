pub mod Checks
pub mod Conditions
