pub mod GlobalCheck
