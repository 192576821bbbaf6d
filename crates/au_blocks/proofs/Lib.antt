pub mod BlocksSoFar
pub mod Cuts
mod Dots
mod Counts
pub mod Distinct
pub mod Enumerated
pub mod FewDigits
pub mod Filled
pub mod First
pub mod GatherStep
pub mod GuessWorlds
pub mod InferredKinds
pub mod LabelKeys
mod LabelOrder
mod LabelRuns
pub mod LeftMarks
pub mod Laying
pub mod Lookup
pub mod MarkedColumns
mod NearLabels
pub mod Numbering
pub mod OnePassRecords
pub mod OnePassColumns
pub mod OnePassTables
pub mod OrderWorlds
pub mod Places
pub mod ReadRecords
pub mod ReadTables
pub mod RowsMade
pub mod RunEntries
pub mod TableParts
pub mod SingleValues
pub mod TakenRecords
pub mod Tallying
pub mod WellFormed
pub mod Widths
