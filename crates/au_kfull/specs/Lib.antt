-- The definitions, in the order in which they are to be read.
pub mod Keys
pub mod Groups
pub mod Extremes
pub mod Outputs
pub mod Numbers
pub mod Embedding
pub mod Typed
pub mod NonPositive
-- What the contracts of inner calls and the proofs speak of.
pub mod TreeFits
pub mod SameGuesses
pub mod Meeting
pub mod Gives
