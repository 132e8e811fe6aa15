pub mod NodeText
pub mod Owed
pub mod Text
pub mod Means
pub mod Possible
pub mod Certain
