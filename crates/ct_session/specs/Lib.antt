pub mod Exporting
pub mod Outcomes
pub mod Offering
pub mod Standing
pub mod Known
pub mod Doing
