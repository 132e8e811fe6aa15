pub mod Dealing
pub mod Right
pub mod Known
pub mod Rows
