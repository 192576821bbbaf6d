-- The definitions, in the order in which they are to be read.
pub mod Groupings
pub mod Points
pub mod PointLaws
pub mod BesideGroup
pub mod GroupingFits
pub mod Worked
-- What the plan of distinct rows is made of.
pub mod GuessRows
