pub mod Needing
pub mod Revising
pub mod Updating
