pub mod Outside
pub mod Reads
pub mod Writes
pub mod InMemory
