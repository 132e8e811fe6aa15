pub mod Reached
pub mod Generated
pub mod Served
pub mod Certified
pub mod Bounds
pub mod Behind
