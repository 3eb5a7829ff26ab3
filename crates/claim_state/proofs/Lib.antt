pub mod Calling
pub mod Found
pub mod Equation
pub mod Guarded
pub mod Joined
