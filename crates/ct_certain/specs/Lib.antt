pub mod Possible
pub mod Certain
pub mod Own
pub mod Faults
pub mod Answered
pub mod Missing
pub mod Constants
