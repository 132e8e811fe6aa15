pub mod Scripts
pub mod Runs
pub mod Summary
pub mod Certificates
pub mod Imports
pub mod Exports
pub mod Promise
