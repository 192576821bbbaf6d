pub mod Clauses
pub mod Sizes
pub mod FromItems
pub mod Names
pub mod Stars
pub mod Sides
pub mod Sources
pub mod Steps
pub mod Within
mod Rows
mod Faults
mod Found
mod Rescaled
mod TermKinds
mod SetColumns
mod ItemKinds
mod GroupKinds
mod KeyKinds
mod FromKinds
mod SelectKinds
pub mod QueryKinds
mod Together
mod AllTerms
