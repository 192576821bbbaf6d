-- The definitions, in the order in which they are to be read.
pub mod Texts
pub mod Tables
pub mod GuessTexts
pub mod DemoTexts
pub mod Lent
pub mod Records
-- What the contracts of inner calls and the proofs speak of.
pub mod Places
pub mod Begun
pub mod CodedValues
pub mod Spans
