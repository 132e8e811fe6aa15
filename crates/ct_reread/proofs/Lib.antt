pub mod Lexemes
pub mod Orderly
pub mod Factors
pub mod Terms
pub mod Mapped
pub mod Nodes
pub mod Sources
pub mod Forms
