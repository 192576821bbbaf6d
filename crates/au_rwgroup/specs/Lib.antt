-- The definitions, in the order in which they are to be read.
pub mod Groups
pub mod Totals
pub mod MemberAggs
pub mod Folds
pub mod GroupPlan
pub mod Gives
pub mod Adds
-- What the contracts of inner calls and the proofs speak of.
pub mod JoinedPlaces
