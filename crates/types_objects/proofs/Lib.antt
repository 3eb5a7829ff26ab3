pub mod CountedLeaves
pub mod Fine
pub mod Kept
pub mod Leafless
pub mod Moduli
pub mod NestedFields
pub mod Opening
pub mod Tables
