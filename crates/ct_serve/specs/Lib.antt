pub mod Sessions
pub mod Progress
pub mod Joined
pub mod Within
pub mod Lawful
pub mod Complete
pub mod Serial
pub mod TableFiles
