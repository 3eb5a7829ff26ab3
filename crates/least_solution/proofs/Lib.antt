pub mod Applied
pub mod Closed
pub mod Members
pub mod Rules
pub mod Worklist
