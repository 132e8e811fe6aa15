pub mod Read
pub mod Spelled
pub mod Calm
pub mod Lists
pub mod Cells
pub mod Conditions
pub mod Lines
pub mod Scripts
