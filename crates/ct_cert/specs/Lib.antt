pub mod Text
pub mod Ranges
pub mod Reading
pub mod Written
pub mod Judgement
pub mod Fields
pub mod Alike
pub mod Numbered
