pub mod Rooted
pub mod Listing
