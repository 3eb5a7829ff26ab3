pub mod Equations
pub mod Solving
pub mod Toy
