-- The definitions, in the order in which they are to be read.
pub mod RowPlans
pub mod PointPlan
pub mod Gives
