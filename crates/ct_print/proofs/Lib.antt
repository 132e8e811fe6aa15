pub mod Quotes
pub mod Joins
