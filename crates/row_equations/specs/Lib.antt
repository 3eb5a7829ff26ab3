pub mod Packing
pub mod Follow
