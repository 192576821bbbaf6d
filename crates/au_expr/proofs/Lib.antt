pub mod Along
pub mod Fits
pub mod Held
pub mod Kept
pub mod Steps
pub mod Within
