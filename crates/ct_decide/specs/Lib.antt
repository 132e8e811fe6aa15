pub mod Counting
pub mod Asking
pub mod Decided
pub mod Part
