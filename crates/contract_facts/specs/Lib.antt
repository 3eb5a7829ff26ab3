pub mod Listed
pub mod Seeing
pub mod Uses
