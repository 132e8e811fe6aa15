pub mod Additions
pub mod Texts
