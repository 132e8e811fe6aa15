pub mod Shown
pub mod Agreeing
pub mod Apart
pub mod Turns
pub mod Laws
