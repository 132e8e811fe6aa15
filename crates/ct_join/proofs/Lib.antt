pub mod Walk
pub mod Filtered
mod Cases
