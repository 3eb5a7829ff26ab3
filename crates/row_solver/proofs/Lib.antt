pub mod Solving
pub mod Tells
pub mod Toy
