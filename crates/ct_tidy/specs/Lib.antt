pub mod Order
pub mod Nulls
pub mod Spread
pub mod Marks
