pub mod Found
pub mod Holding
pub mod Suffixing
pub mod Telling
