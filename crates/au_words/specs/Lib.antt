-- The definitions, in the order in which they are to be read.
pub mod Words
-- What the contracts of inner calls and the proofs speak of.
pub mod CommandLine
