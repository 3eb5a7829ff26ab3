pub mod Bools
pub mod MessageOrder
pub mod SameList
