pub mod Names
pub mod Prints
pub mod Owing
pub mod Lists
pub mod Counted
