-- The definitions, in the order in which they are to be read.
pub mod Steps
pub mod Held
pub mod Operands
pub mod Batches
pub mod Evaluated
pub mod Chains
