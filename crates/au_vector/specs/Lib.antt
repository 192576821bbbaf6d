-- The definitions, in the order in which they are to be read.
pub mod Widths
pub mod Runs
pub mod PlanSteps
pub mod Streams
pub mod Sinks
pub mod Pieces
-- What the proofs of traits speak of.
pub mod PieceLaws
