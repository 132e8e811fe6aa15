pub mod Dealt
pub mod Decided
pub mod Placed
