-- The definitions, in the order in which they are to be read.
pub mod Texts
pub mod Lists
pub mod Order
pub mod Ranges
pub mod Extremes
pub mod Numeral
pub mod Decimal
pub mod Adding
pub mod Joining
pub mod Results
pub mod Laws
-- What the contracts of inner calls and the proofs speak of.
pub mod KindLaws
pub mod Held
