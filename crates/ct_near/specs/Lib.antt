pub mod Walks
pub mod Entries
pub mod Conjuncts
pub mod Related
pub mod Near
