-- The definitions, in the order in which they are to be read.
pub mod BlockRows
pub mod Listed
pub mod TextPlaces
pub mod Ranges
