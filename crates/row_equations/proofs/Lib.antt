pub mod First
pub mod Names
pub mod Packed
pub mod Finite
pub mod Following
