pub mod Faults
pub mod Flat
pub mod Texts
pub mod Setups
pub mod Reader
