pub mod Bare
pub mod Conjuncts
pub mod Joined
pub mod Wide
pub mod SameRows
pub mod Fitting
pub mod Named
pub mod Words
pub mod Law
pub mod Counted
pub mod Selected
pub mod Runs
mod Cases
