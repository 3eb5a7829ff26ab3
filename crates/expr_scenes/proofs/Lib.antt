pub mod Descents
pub mod Lists
