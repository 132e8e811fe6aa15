pub mod Shaped
mod Passing
pub mod Agreed
mod Noting
pub mod Each
pub mod Listed
mod Values
mod Kept
pub mod Drawing
