pub mod Runs
mod Listing
mod Steps
mod Entries
mod Traced
mod Laid
mod Others
mod Sharing
mod Near
mod Widening
