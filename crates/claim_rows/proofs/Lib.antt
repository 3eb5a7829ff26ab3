pub mod Parts
pub mod Placed
pub mod Ruled
