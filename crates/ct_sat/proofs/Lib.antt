pub mod Carried
pub mod Verdicts
pub mod Ways
pub mod Moves
