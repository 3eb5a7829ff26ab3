pub mod Following
pub mod Walks
pub mod Adding
pub mod Searched
