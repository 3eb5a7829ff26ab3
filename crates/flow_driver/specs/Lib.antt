pub mod Ending
pub mod Found
pub mod GlobalCheck
pub mod Reading
pub mod Report
pub mod Run
pub mod Runs
