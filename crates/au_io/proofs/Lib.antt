pub mod Finding
pub mod Appending
pub mod Reading
