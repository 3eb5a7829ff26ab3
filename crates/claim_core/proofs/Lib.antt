pub mod Bounds
pub mod Guards
pub mod Keeps
pub mod Systems
pub mod Totals
pub mod Words
