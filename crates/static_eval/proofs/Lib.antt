pub mod Overs
pub mod Spines
