pub mod Found
pub mod Rooms
pub mod Rows
