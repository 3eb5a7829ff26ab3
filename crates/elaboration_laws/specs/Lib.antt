pub mod Covering
pub mod Endings
