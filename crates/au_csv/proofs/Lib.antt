pub mod Between
pub mod Fields
pub mod NotText
pub mod Reached
pub mod Stops
