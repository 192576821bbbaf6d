mod AllPlaces
mod BlockCounts
pub mod BlockRows
mod CellsLeft
mod CertainValues
pub mod CountedAnswers
mod CountedFits
pub mod EveryWorld
pub mod GuessFits
mod LeastPlaces
pub mod PairRows
mod Parts
pub mod PrintedFits
mod Sizes
mod SameCells
mod SummedRows
