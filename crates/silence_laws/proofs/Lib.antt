pub mod Globals
pub mod Outside
pub mod Starts
