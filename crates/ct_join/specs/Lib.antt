pub mod Pairs
pub mod Mixing
pub mod Indexed
