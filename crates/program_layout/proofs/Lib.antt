pub mod Belonging
pub mod Coded
pub mod Counts
pub mod Leaves
pub mod Making
pub mod Rounds
pub mod Steps
pub mod Viewing
