pub mod RowMaps
pub mod RowPlans
pub mod Unsure
pub mod PointBoxes
pub mod PointGroups
pub mod GroupLaws
pub mod Steps
