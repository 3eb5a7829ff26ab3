pub mod Fitting
pub mod Formed
pub mod Factored
pub mod Tests
pub mod Tracks
pub mod Counted
pub mod Places
pub mod Stated
