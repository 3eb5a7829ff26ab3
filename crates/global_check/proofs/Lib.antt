pub mod Gathered
pub mod Told
pub mod Viewed
pub mod Whole
pub mod Wrong
