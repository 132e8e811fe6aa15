pub mod Equalities
pub mod Replacing
pub mod Updates
