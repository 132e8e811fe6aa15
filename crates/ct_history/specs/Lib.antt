pub mod Commits
pub mod Encodes
pub mod Items
pub mod Places
pub mod Printed
pub mod Rows
pub mod Written
