-- The definitions, in the order in which they are to be read.
pub mod Trees
pub mod Typing
pub mod Lists
pub mod Ordinary
pub mod Entries
pub mod Counted
pub mod Bounded
pub mod Fits
pub mod Distribution
pub mod Positive
pub mod Laws
pub mod Products
-- What the contracts of inner calls and the proofs speak of.
pub mod Keys
pub mod Ends
