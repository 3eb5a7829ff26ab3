pub mod Laid
pub mod Leaves
pub mod Search
