pub mod Ordered
pub mod WordLaws
