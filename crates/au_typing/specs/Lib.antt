-- The definitions, in the order in which they are to be read.
pub mod Scales
pub mod Scopes
pub mod Aggregates
pub mod Terms
pub mod Items
pub mod Selects
pub mod Queries
pub mod MadeColumns
pub mod Laws
-- What the contracts of inner calls and the proofs speak of.
pub mod Shapes
pub mod Results
pub mod Judged
pub mod Joined
