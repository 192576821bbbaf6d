-- The definitions, in the order in which they are to be read.
pub mod Cells
pub mod Flatten
pub mod Counts
pub mod Meets
pub mod Added
pub mod Nodes
pub mod Adding
