-- The definitions, in the order in which they are to be read.
pub mod Reading
pub mod Weights
pub mod Homs
pub mod Links
pub mod Held
pub mod Passes
pub mod Evaluation
-- What the contracts of inner calls and the proofs speak of.
pub mod GuessLaws
