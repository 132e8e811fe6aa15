pub mod Shape
pub mod Below
pub mod Gathering
pub mod Valuation
pub mod Truths
pub mod Repaired
pub mod Nulls
