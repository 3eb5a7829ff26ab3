pub mod Calls
pub mod Readings
pub mod Records
pub mod Slots
