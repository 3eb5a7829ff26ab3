pub mod Bits
pub mod Grown
pub mod Joined
pub mod Listed
pub mod Pairs
pub mod Places
