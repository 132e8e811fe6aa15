pub mod Scan
pub mod Spelling
pub mod Tokens
pub mod Texts
pub mod Splitting
pub mod Written
pub mod Reading
