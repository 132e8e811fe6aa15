pub mod Found
pub mod Names
pub mod Conditions
pub mod Queries
pub mod Statements
pub mod Views
pub mod Writing
