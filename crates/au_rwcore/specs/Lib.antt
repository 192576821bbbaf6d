-- The definitions, in the order in which they are to be read.
pub mod Core
pub mod Gives
pub mod Adds
