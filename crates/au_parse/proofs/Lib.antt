pub mod CaseRows
pub mod Causes
pub mod Chains
pub mod ClauseCuts
pub mod Commas
pub mod Cutting
pub mod Ranks
pub mod Sets
pub mod SourceRows
pub mod Wholeness
pub mod Expressions
pub mod ListPieces
pub mod Cases
mod Corners
mod Rows
mod Pairs
