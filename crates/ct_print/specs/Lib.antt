pub mod Written
pub mod TermText
