pub mod Members
pub mod Units
pub mod Clauses
pub mod Sound
pub mod Modelled
pub mod Carried
pub mod Longer
mod Tests
