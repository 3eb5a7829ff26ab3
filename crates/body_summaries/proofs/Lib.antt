pub mod Calls
pub mod Laid
pub mod Words
