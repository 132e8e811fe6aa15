pub mod Marks
pub mod Translation
pub mod Cut
