pub mod Counted
pub mod Joined
pub mod Shown
pub mod Told
pub mod Viewed
