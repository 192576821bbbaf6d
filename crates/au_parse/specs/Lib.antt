-- The definitions, in the order in which they are to be read.
pub mod Tree
pub mod Views
pub mod Words
pub mod Cuts
pub mod Expressions
pub mod Queries
pub mod Limits
pub mod Parsing
pub mod Whole
-- What the contracts of inner calls and the proofs speak of.
pub mod Levels
pub mod Statements
