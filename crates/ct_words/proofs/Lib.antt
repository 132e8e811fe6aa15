pub mod Digits
pub mod Plain
pub mod Found
pub mod Named
pub mod Tasks
mod Samples
