pub mod DependsCheck
pub mod ItemSets
