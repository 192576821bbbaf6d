mod CodedRows
mod CodedRuns
mod DecodedCells
mod FirstRows
pub mod PlanKinds
mod RowKinds
mod SourceKinds
mod ValueColumns
mod ValueKinds
mod HeldCodes
mod Advancing
mod Refusals
