pub mod Agreed
mod Alone
pub mod Asking
pub mod Cuts
pub mod Pools
pub mod Short
pub mod Listing
pub mod Missing
pub mod Values
pub mod Roots
pub mod Certainties
pub mod Candidates
pub mod Always
pub mod Earlier
pub mod Nearby
mod Constants
