pub mod Bucket
pub mod Seen
pub mod Linked
pub mod Keys
