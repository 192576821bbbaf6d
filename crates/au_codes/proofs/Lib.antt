mod BookPlaces
pub mod CarefulValues
pub mod CodedInPlace
mod Fronts
mod GatheredTexts
mod GroupRows
mod JoinedRows
mod KeptOrder
mod Lists
mod NormalCells
mod PlanNumbers
mod PlanRows
mod Ranks
mod Terms
mod TextOrder
mod TextsBack
