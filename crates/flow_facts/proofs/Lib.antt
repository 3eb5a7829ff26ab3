pub mod Grows
pub mod Loops
pub mod Outcomes
pub mod Rounds
pub mod Same
pub mod Within
