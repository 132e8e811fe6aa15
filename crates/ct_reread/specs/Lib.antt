pub mod Printed
pub mod Reread
pub mod Mapped
