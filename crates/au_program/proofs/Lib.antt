pub mod CompressedPairs
mod CountedSteps
mod FoundPairs
pub mod FoundSteps
pub mod HeldSources
pub mod Materialized
mod NarrowedSources
pub mod Operators
mod OtherTables
pub mod PlainRules
pub mod PlanSteps
mod PlannedParts
mod Putting
pub mod ReadRows
pub mod RelationColumns
pub mod Reordered
pub mod StageRuns
mod StageSteps
pub mod Together
mod TreeKinds
mod TreeNumbers
mod TreeSizes
mod TypedWidths
mod WholePlans
