pub mod Columns
pub mod Planned
pub mod Over
pub mod Spent
pub mod Replaces
