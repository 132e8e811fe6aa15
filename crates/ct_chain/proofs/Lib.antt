pub mod Mixing
pub mod Steps
pub mod Keys
