-- The definitions, in the order in which they are to be read.
pub mod Reading
pub mod Options
pub mod Answers
pub mod CodedAnswers
pub mod Certainty
pub mod Exchange
pub mod PlanAnswers
pub mod EncodedTables
pub mod Explaining
-- What the contracts of inner calls and the proofs speak of.
pub mod CountedTables
pub mod GuessReads
pub mod CountedInputs
pub mod HeldTables
pub mod InputRows
pub mod Finding
pub mod ReadPlaces
