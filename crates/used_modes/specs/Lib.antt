pub mod Added
pub mod UsedModes
