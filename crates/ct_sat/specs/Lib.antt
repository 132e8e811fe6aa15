pub mod Log
pub mod Search
pub mod Units
pub mod Verdict
