-- The definitions, in the order in which they are to be read.
pub mod Terms
pub mod Kinds
pub mod Evaluate
pub mod Ordinary
pub mod OnRanges
pub mod Truths
pub mod Holding
pub mod Figures
pub mod Numbers
pub mod Related
-- What the contracts of inner calls and the proofs speak of.
pub mod Ends
pub mod Views
pub mod Steps
