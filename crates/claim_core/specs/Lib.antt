pub mod Bits
pub mod System
pub mod Machine
pub mod Guards
pub mod Invariant
pub mod Counts
