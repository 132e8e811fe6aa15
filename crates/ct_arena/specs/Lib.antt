pub mod Name
pub mod Counts
pub mod Seen
pub mod Kept
pub mod Sharing
pub mod Own
