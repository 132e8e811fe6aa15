pub mod Numbers
pub mod Many
pub mod Texts
pub mod Lists
pub mod Judged
pub mod Alike
mod Noted
