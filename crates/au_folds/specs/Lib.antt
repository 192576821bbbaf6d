-- The definitions, in the order in which they are to be read.
pub mod Puts
pub mod Kept
pub mod Places
pub mod Tables
pub mod Merged
pub mod Packed
pub mod Keyed
pub mod Known
pub mod Held
pub mod Grouped
pub mod Laws
