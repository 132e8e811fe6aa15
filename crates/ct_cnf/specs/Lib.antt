pub mod Encoding
pub mod Lists
pub mod Making
