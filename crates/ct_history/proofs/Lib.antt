pub mod Encoded
pub mod Frames
pub mod ItemLists
pub mod Lists
pub mod Named
pub mod Printed
pub mod Rows
pub mod Writers
