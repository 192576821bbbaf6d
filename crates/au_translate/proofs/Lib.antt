mod ExampleData
mod Examples
mod ExampleWorlds
mod MoreExamples
pub mod Places
pub mod Ends
mod Guessing
pub mod Alternatives
pub mod BlockRelation
pub mod BoundedAnswer
pub mod ShownCells
mod Misread
mod PlaceValues
pub mod ColumnParts
pub mod SingleBlocks
mod FitNumbers
