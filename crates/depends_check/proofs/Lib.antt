pub mod Deciding
pub mod Doubled
pub mod Fine
pub mod Grown
pub mod Keyed
pub mod Lefts
pub mod Told
pub mod Wrong
