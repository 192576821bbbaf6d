-- The definitions, in the order in which they are to be read.
pub mod CountedRows
pub mod Plainly
pub mod Operators
pub mod Plans
pub mod Stands
pub mod Gives
pub mod Adds
pub mod Answers
pub mod PairAnswers
pub mod Worked
