pub mod Alls
pub mod Distinct
pub mod Items
pub mod Maps
pub mod Parts
