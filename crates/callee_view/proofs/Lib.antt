pub mod Knowing
pub mod Passed
pub mod Placing
