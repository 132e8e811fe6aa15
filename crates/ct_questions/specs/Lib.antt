pub mod Roots
pub mod Candidates
