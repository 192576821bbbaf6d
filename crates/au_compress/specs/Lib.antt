-- The definitions, in the order in which they are to be read.
pub mod Kinds
pub mod Splitting
pub mod CompressedAnswers
pub mod ProductNumbers
pub mod CompressedFits
