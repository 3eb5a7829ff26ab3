pub mod Denied
pub mod Inside
pub mod Lists
pub mod Nesting
pub mod One
