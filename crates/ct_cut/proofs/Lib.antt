pub mod Marked
pub mod Walk
pub mod Kept
pub mod Named
pub mod Accepted
pub mod Cuts
pub mod Steps
