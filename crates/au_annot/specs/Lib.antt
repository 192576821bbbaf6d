-- The definitions, in the order in which they are to be read.
pub mod Annotations
pub mod Counts
pub mod Triples
pub mod Pairs
-- What the contracts of inner calls and the proofs speak of.
pub mod CountLaws
pub mod TripleLaws
pub mod PairLaws
