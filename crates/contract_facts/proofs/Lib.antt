pub mod Listing
pub mod Seeing
pub mod Used
pub mod Views
