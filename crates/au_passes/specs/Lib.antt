-- The definitions, in the order in which they are to be read.
pub mod Keeps
pub mod Conditions
pub mod Tests
pub mod Pushing
pub mod Reading
pub mod Pruning
-- What the contracts of inner calls and the proofs speak of.
pub mod Places
